pub mod VerdictsLemmas
pub mod InputLemmas
pub mod ReportLemmas
