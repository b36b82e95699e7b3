pub mod Looking
pub mod OneLine
pub mod Reading
pub mod RoundTrip
