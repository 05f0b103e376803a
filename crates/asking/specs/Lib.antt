-- What all requests on an image share.
pub mod Outcome
pub mod KeysTest
pub mod Keys
pub mod RightsTest
pub mod Rights
pub mod Asked
pub mod AskedStage
pub mod OpensTest
pub mod Opens
pub mod Access
pub mod AccessStage
