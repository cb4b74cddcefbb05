mod OneBoxLevels
mod ApartPatches
mod CoveredCells
