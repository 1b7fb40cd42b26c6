pub mod PicturesAndPage
pub mod ReadViews
