-- Theorems about warnings and audits.
pub mod ConflictLemmas
pub mod EmptyDisallowLemmas
pub mod RepeatedLemmas
pub mod GroupLemmas
pub mod TheoremLemmas
pub mod WarningLemmas
