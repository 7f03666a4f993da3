pub mod Join
pub mod Pairs
pub mod OwnPairs
pub mod KeyParts
pub mod JoinLaws
