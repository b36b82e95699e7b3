-- Laws of a push, of an emptied window and of the lent lists, as the code makes them.
pub mod PushCalls
pub mod Pushing
pub mod Emptied
pub mod Lists
pub mod Fits
