pub mod TileSteps
