pub mod Terms
mod Columns
mod TypedCalls
mod Names
pub mod TypedValues
pub mod Plans
pub mod Positions
pub mod StepByStep
pub mod Accepted
pub mod Reducers
pub mod TypedSteps
pub mod AcceptedTypes
pub mod Extended
pub mod AcceptedLater
pub mod StepLaws
