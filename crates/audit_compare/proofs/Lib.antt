pub mod CompareLemmas
pub mod SitemapLemmas
