mod Differences
mod Above
mod Walks
mod RunPieces
mod OneShaved
mod OwnParts
