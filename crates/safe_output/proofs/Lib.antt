pub mod BytesLemmas
pub mod StreamsLemmas
pub mod SanitizeLemmas
pub mod EscapeLemmas
pub mod CommandLemmas
pub mod ReportLemmas
pub mod PageLemmas
