mod ListedKeys
mod RunningSums
mod SummedOutputs
mod Quotients
mod TypedItems
mod GivenWeights
mod ListedShares
