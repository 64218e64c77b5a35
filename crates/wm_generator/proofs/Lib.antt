pub mod GeneratedWorks
