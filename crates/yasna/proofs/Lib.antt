pub mod Closures
pub mod Laws
pub use Rattle.yasna_base.proofs as base
pub use Rattle.yasna_times.proofs as time
pub use Rattle.yasna_bytes.proofs as bytes
pub use Rattle.yasna_reader.proofs as reader
