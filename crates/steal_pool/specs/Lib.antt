pub mod Found
pub mod UnderWay
pub mod Deeds
pub mod Jobs
pub mod Handling
pub mod Rising
pub mod Turns
