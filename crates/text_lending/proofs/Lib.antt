pub mod LentTo
