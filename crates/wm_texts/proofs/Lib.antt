pub mod LogTexts
pub mod TextsLemmas
