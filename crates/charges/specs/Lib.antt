-- `Band` is a point's band as its values; `Scan` the scan of the points, each of which is charged to its user; `Month` the amounts of
-- every user that follow from it; `Rows` the last row of a table, to which direct charges are added.
pub mod Band
pub mod Scan
pub mod Month
pub mod Rows
