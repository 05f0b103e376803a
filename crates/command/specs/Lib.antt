-- CSI1 and CSI2: Condensed, Csi1 and Csi2 are what is promised of them, Known what a host makes of the answers. Condensing and Asking are
-- the answers of each, Laid, Judged and GivenAt are means.
pub mod Condensed
pub mod Condensing
pub mod Asking
pub mod Csi1
pub mod Csi2
pub mod Known
pub mod Laid
pub mod Judged
pub mod GivenAt
