pub mod Moments
pub mod Offers
pub mod Viable
pub mod Visits
