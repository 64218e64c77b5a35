pub mod RemovedWorks
