pub mod AcceptedTexts
