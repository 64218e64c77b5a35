mod Bools
pub mod Founds
mod Kepts
mod Known
mod Lists
mod Numbers
mod Tables
