-- The match target of a URL or a path of a request, a list or an expectation, as crawlers ask for it.
pub use Rattle.robots_warnings.specs.Targets.{asked_target, requested_target}
