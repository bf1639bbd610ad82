pub mod Borrowing
pub mod Keeping
pub mod NumberLemmas
