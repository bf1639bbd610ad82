pub mod ClosedLemmas
pub mod RuleLemmas
pub mod SeenLemmas
pub mod TellsLemmas
