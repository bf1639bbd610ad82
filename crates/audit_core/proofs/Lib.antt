pub mod AuditLemmas
pub mod AddedLemmas
pub mod EmptyLemmas
pub mod ReachLemmas
