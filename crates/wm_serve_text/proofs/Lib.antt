pub mod AnswersLemmas
pub mod LegalLines
pub mod NamesLemmas
