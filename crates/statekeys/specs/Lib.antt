pub mod KeyCodes
pub mod Keys
pub mod KeyParts
pub mod KeyLaws
pub mod ClassKeys
