pub mod Print
pub mod Printers
