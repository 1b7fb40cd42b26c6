mod Priced
