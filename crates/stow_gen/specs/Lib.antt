pub mod Draws
pub mod Words
pub mod Profile
pub mod Bookings
pub mod MadeShip
pub mod MadeBookings
pub mod MadeVoyage
