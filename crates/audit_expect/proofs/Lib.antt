pub mod ExpectationsLemmas
pub mod PatternLemmas
