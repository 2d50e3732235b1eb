pub mod LocationMap
