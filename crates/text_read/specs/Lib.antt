pub mod Supervisor
pub mod Table
