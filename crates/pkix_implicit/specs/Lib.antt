pub mod CrlReason
