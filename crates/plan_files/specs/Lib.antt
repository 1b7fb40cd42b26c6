pub mod Shown
pub mod DepartureSegments
pub mod DepartureFile
pub mod Ids
pub mod PlanOf
pub mod Checked
