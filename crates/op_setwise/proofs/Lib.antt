mod OnlyWeights
mod SetOutputs
