pub mod ArrayLaws
pub mod ValueLaws
