pub mod GithubLemmas
pub mod MessageLemmas
