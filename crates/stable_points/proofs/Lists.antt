pub mod PlaceSearch
