pub mod OcspResponseStatus
