pub mod AppendedTexts
