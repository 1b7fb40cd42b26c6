pub mod BookingLaws
pub mod IdLaws
pub mod RuleLaws
pub mod CargoLaws
