pub mod Answered
pub mod AskTextsLemmas
pub mod Meetings
pub mod Readied
pub mod MetStarts
