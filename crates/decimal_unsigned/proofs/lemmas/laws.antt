pub mod ValueLaws
pub mod ConcatenationLaws
