pub mod CertifiedCover
