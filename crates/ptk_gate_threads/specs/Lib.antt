pub mod Arrivals
pub mod Requests
pub mod Times
