pub mod PlacedPairs
