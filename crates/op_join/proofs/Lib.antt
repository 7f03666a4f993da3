mod NormSums
mod Quotients
mod RisingPairs
mod ListedPairs
mod PairLoops
mod JoinedParts
