-- The printed text of a program.
pub mod Alike
pub mod AlikeItems
pub mod PrintableItems
pub mod Printables
pub mod PrintedItemTexts
pub mod PrintedTexts
pub mod OperandOrder
pub mod Printing
pub mod PrintingItems
pub mod Reread
pub mod Spellable
pub mod SpellableItems
pub mod Texts
pub mod PlaceLoss
