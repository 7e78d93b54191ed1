-- Lists: pairs with a longer list. Impulses, Preemphases: entries and lengths of the impulse response, of preemphasis. Residuals: the residual's sum where no step can clamp.
-- Correlations, Tilts: the correlation is at most the energy, so that the tilt's division is in order. Subframes, Frames: as the code goes. Results: what a subframe and a frame give. Divisions: how often they divide.
pub mod Lists
pub mod Impulses
pub mod Correlations
pub mod Tilts
pub mod Preemphases
pub mod Residuals
pub mod Subframes
pub mod Frames
pub mod Results
pub mod Divisions
