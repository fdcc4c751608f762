mod Count
mod Parts
