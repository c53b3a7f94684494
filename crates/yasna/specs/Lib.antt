pub mod Tuples
pub mod Words
pub use Rattle.yasna_base.specs as base
pub use Rattle.yasna_times.specs as time
pub use Rattle.yasna_bytes.specs as bytes
pub use Rattle.yasna_reader.specs as reader
pub use Rattle.yasna_writer.specs as writer
