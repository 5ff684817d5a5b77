pub mod StableScan
