pub mod RunInvariant
pub mod RunLaws
