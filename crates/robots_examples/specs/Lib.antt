pub mod Crawler
pub mod LinkCheck
pub mod Audit
pub mod Cache
