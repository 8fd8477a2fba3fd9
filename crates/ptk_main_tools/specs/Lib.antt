pub mod HostFaults
pub mod Numbers
pub mod Statuses
pub mod Told
